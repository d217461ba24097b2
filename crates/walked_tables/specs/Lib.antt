pub mod WalkedTables
