pub mod Reading
pub mod Putting
pub mod Scalars
pub mod Doing
pub mod PutSteps
pub mod JoinSteps
pub mod Stepping
pub mod Deciding
pub mod LoadSteps
pub mod MoveSteps
pub mod LendSteps
pub mod HandSteps
pub mod CallSteps
pub mod LeaveSteps
pub mod Same
pub mod Rows
pub mod FireSteps
pub mod TagSteps
mod Integers
mod Leaves
