pub mod Cut
pub mod CutLaws
