-- Number has the paper's number of each ground, Grounds the first of a list of grounds.
pub mod Number
pub mod Grounds
