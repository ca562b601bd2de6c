-- What the members of an object are, which name is the first repeated one, and what order and links mean.
pub mod Records
pub mod Lists
pub mod Siblings
pub mod Walking
pub mod Names
pub mod Links
pub mod Rows
pub mod Repeats
pub mod Searches
pub mod Chains
pub mod Merging
