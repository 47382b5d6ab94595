-- What the contracts of this crate say of sources, sinks, lines and rules, passed on. Declares nothing.
pub use Rattle.crs_rules.specs.Rewritten.{IsForm, SameUnder}
pub use Rattle.crs_rules.specs.Rules.{RulesParts, AreRules}
pub use Rattle.crs_streams.specs.Lines.{EndsInFeed}
pub use Rattle.crs_streams.specs.Streams.{AppendsFront, CountsRead, CountsWrites, SinkState, SourceState, fresh_sink, fresh_source}
