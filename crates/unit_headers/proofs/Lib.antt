pub mod ChainSteps
mod UnitLaws
