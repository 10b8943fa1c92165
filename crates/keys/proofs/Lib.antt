pub mod Preorders
pub mod RankOrder
