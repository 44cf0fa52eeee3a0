pub mod InLists
