mod Changing
mod Delivered
pub mod Delivering
mod DrawnKeys
pub mod Fields
mod Generating
mod KeyDigits
mod KeyParts
mod ListedLabels
mod OverKeys
mod Points
mod SetRules
mod TokenReply
mod TokensAgain
