-- lists, fronts, and where words lie
pub mod Rows
pub mod Rewriting
pub mod Counting
pub mod Fronts
pub mod Below
-- the rule: sums over all seats, and what stays known to the seats that do not step
pub mod Sums
pub mod Kept
-- seats are cut and joined
pub mod Cutting
pub mod Sharing
pub mod Planning
pub mod Paying
pub mod Meeting
pub mod Arming
-- loads without an event
pub mod Looking
pub mod Reciting
-- steps with an event, each with the lemma that the rule allows it
pub mod Turns
pub mod Unchanging
pub mod Filling
pub mod Publishing
pub mod Retaining
pub mod Soling
pub mod Writing
pub mod Fitting
pub mod Seeing
pub mod Installing
pub mod Offering
pub mod Detaching
pub mod Releasing
pub mod GivingBackAlone
pub mod GivingBackBoth
pub mod GivingBack
-- the beginning and the end
pub mod Ending
-- from seats to what contracts see of owners
pub mod Tying
pub mod Referring
pub mod Showing
pub mod Siding
