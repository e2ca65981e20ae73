mod Requests
mod RetiredLaws
mod RoleChanges
mod RoleLaws
