mod Results
mod Times
mod Moving
mod Turning
mod Works
mod Pieces
