-- The names that proofs of the crates above cite, passed on from one place. Declares nothing.
pub use Rattle.crs_streams.specs.inner.Cutting.{AreCut, CutsLines}
pub use Rattle.crs_streams.specs.Streams.{GivesMore, GivesShortLines, HasGiven, CountsRead, SinkState, SourceState, fresh_sink, fresh_source}
pub use Rattle.crs_streams.specs.Json.{json_more, json_text}
pub use Rattle.crs_streams.specs.Lines.{AreLines, HasNoFeed, IsSplit, IsTextOf, blank_in, EndsInFeed, IsTooLong, feeds}
unfoldable pub use Rattle.crs_streams.specs.Lines.{HasShortLines}
