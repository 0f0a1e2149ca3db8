pub mod Allowance
pub mod Finishes
pub mod Laid
pub mod AllowanceLaws
pub mod Mapped
pub mod FinishLaws
pub mod LaidLaws
