pub mod FailingInput
