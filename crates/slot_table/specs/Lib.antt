-- what callers read
pub mod Opening
pub mod Numbers
pub mod Owners
pub mod Outcomes
pub mod Laws
-- what this crate's proof needs: the rule over the table, and what its steps tell
pub mod Addresses
pub mod Views
pub mod Seats
pub mod Holdings
pub mod PassSteps
pub mod DraftSteps
pub mod ReferenceSteps
pub mod SideSteps
pub mod LiteralSteps
pub mod Ties
