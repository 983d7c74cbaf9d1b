pub mod Run
pub mod Reach
pub mod Program
pub mod Witness
pub mod Growth
pub mod Shift
