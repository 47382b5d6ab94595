pub mod ArgumentLemmas
pub mod ConversionLemmas
pub mod FirstArgumentsLemmas
pub mod IdentLemmas
pub mod KindLemmas
pub mod MemberLemmas
