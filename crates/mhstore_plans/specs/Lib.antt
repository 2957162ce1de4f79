pub mod ClearWork
pub mod Files
pub mod StoreAlone
pub mod StoreAnswers
pub mod StoreOutcome
pub mod StorePledge
pub mod Storing
