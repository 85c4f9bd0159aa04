pub mod OwnStretch
