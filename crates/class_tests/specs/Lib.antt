pub mod ValidKeys
