pub mod Anno
pub mod AnnoAlone
pub mod AnnoAnswers
pub mod AnnoDone
pub mod AnnoOutcome
pub mod AnnoPledge
