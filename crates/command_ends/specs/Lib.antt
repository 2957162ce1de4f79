pub mod BegunCauses
pub mod BuildCauses
pub mod Causes
pub mod WordCauses
