-- What the contracts of this crate say of sources, sinks and rules, passed on. Declares nothing.
pub use Rattle.crs_rules.specs.Rules.{RulesParts}
pub use Rattle.crs_streams.specs.Streams.{AppendsFront, CountsRead, CountsWrites, SinkState, SourceState, fresh_sink, fresh_source}
