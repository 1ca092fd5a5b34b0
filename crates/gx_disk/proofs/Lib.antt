mod Mixing
mod Picking
mod Written
