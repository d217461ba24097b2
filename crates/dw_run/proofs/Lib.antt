pub mod DumpPrinted
pub mod Ended
pub mod ExerciseEnded
pub mod FirstRefusalLaws
pub mod LinesSent
pub mod SectionsText
pub mod UnitsPrinted
