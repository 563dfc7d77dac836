pub mod Forms
pub mod Accounts
pub mod Tests
pub mod Laws
