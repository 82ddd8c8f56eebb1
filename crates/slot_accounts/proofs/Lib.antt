-- how calls compose
pub mod Doing
pub mod Beside
-- what the calls of the heap do
pub mod Drawn
pub mod GivingUp
pub mod Runs
-- what own events say of the whole history
pub mod Whole
pub mod Counts
pub mod Complete
pub mod Slots
