-- Chains of variables and their components: what the tests on equations say.
pub mod ChainLaws
pub mod Components
pub mod ComponentCount
pub mod Placed
pub mod OneKind
pub mod Named
pub mod FewBlocks
