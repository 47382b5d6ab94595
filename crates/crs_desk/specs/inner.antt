pub mod FileAnswers
pub mod FilesGrouping
pub mod Found
pub mod HandedOn
pub mod LineCutting
pub mod PartFault
pub mod Pieces
pub mod RulesCounts
