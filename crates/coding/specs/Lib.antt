pub mod Regroup
pub mod Grouping
pub mod Lift
pub mod Manchester
pub mod ManchesterLaws
pub mod Block
pub mod BlockLaws
pub mod Statements
