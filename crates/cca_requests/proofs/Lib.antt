mod Ageing
mod Carrying
mod Changing
mod Contents
mod Damage
mod Handing
mod Leaving
mod MemoryLaws
mod OperandsJudged
mod Registers
mod Renewing
mod ReplyLines
mod RoleChanging
pub mod Serving
mod Storing
mod TurnedRows
