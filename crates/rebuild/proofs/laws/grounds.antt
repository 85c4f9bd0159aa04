pub mod RebuildGround
