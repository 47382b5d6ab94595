pub mod CrsLemmas
pub mod RootLemmas
pub mod TextLemmas
pub mod ValueLemmas
pub mod WordLemmas
