pub mod Wallets
pub mod Orders
pub mod WalletProofs
