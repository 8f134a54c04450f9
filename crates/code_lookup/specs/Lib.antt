pub mod ByteTables
