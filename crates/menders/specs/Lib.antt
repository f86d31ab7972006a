pub mod Locators
pub mod Repairs
pub mod MenderLaws
