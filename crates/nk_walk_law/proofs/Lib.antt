pub mod Tools
pub mod ParentEnters
pub mod ChildEnters
pub mod ParentCuts
pub mod ChildCuts
pub mod Steps
pub mod RunTest
