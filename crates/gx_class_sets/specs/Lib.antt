pub mod Signatures
pub mod Distances
pub mod IntQueries
pub mod IntbigTests
pub mod SignatureLaws
pub mod IntbigLaws
pub mod HstoreTests
pub mod HstoreLaws
