-- laws/Windows has the laws of a window that is looked at as two blocks, whatever their width; laws/Largest those of bytes looked at one by
-- one, which the scan cites too.
pub mod laws
