mod CalmLaws
mod AxisLaws
mod StepLaws
mod LineEndLaws
mod SettleLaws
pub mod TickLaws
pub mod StartLaws
pub mod CarryLaws
pub mod PulseLaws
mod NeedLaws
pub mod ToldLaws
pub mod StageLaws
pub mod ByteLaws
pub mod EntryPowerLaws
pub mod EntryTickLaws
pub mod EntryByteLaws
pub mod ReachLaws
pub mod GatherLaws
pub mod AnswerLaws
pub mod JournalAnswerLaws
pub mod CarryAnswerLaws
pub mod SettleAnswerLaws
pub mod FrontLaws
pub mod IdentifiedAnswerLaws
mod PositionLaws
