mod Candidates
mod Merging
mod Rising
mod Walking
