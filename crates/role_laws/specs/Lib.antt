pub mod RetiredKeys
pub mod RolePoints
