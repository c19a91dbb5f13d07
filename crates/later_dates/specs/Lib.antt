-- A date of the run's walk over later dates.
pub mod Walk
