pub mod CommandLists
