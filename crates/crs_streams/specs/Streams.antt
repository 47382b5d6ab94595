-- A counted reader and writer as callers see them, and what a source gave.
use Rattle.std.specs.Prelude.{◌≡◌, ◌+◌, ◌++◌, ◌==◌, ◌||◌, ◌∷◌, [], ℕ, Bool, true, false, List, Option, Result, MatchResult, IfSome, length}
use Rattle.std.specs.Io.KnownBytes.{Appends, Consumes}
use Rattle.crs_streams.specs.Lines.{HasShortLines, IsTooLong}

-- ---- a counted reader and writer as callers see them

-- a reader: the bytes that it has left where they are known, the reads made, the bytes that they gave, whether a read
-- gave no byte, which shows the end, whether a read was made past the end, and whether a read answered a failure
pub record SourceState : Type 0 where
  pub remaining : Option (List ℕ)
  pub reads : ℕ
  pub taken : ℕ
  pub ended : Bool
  pub past_end : Bool
  pub failed : Bool

-- a writer: the bytes that it holds where they are known, whether anything was handed to it,
-- whether a write was made past a failure, and whether a write answered a failure, or took no byte
pub record SinkState : Type 0 where
  pub contents : Option (List ℕ)
  pub used : Bool
  pub past_failure : Bool
  pub failed : Bool

-- a reader with these bytes left, of which nothing was read
abbrev pub fresh_source : Option (List ℕ) → SourceState
fresh_source remaining =
    record { remaining = remaining; reads = 0; taken = 0; ended = false; past_end = false; failed = false }

-- a writer with these bytes, to which nothing was written
abbrev pub fresh_sink : Option (List ℕ) → SinkState
fresh_sink contents = record { contents = contents; used = false; past_failure = false; failed = false }

-- a writer that was given these bytes, and wasn't asked where there are none
abbrev pub IsAskedFor : List ℕ → SinkState → SinkState → Type 0
IsAskedFor [] old new = new ≡ old
IsAskedFor (byte ∷ bytes) old new = new.used ≡ true

-- bytes of which a write failed: a writer whose bytes are known holds the first of them
abbrev pub AppendsFront : Option (List ℕ) → Option (List ℕ) → List ℕ → Type 0
AppendsFront old new bytes = (front : List ℕ) × (rest : List ℕ) × (bytes ≡ front ++ rest) × Appends old new front

-- one more read: whether the end was shown before, the bytes that it gave, whether there were none, or its failure
pub record CountsRead {E : Type 0} (old new : SourceState) (answer : Result ℕ E) : Type 0 where
  pub one_more : new.reads ≡ old.reads + 1
  pub past_end : new.past_end ≡ (old.past_end || old.ended)
  pub bytes : MatchResult answer
      (λ count. (new.taken ≡ old.taken + count) × (new.ended ≡ (old.ended || (count == 0)))
      × (new.failed ≡ old.failed))
      (λ _. (new.taken ≡ old.taken) × (new.ended ≡ old.ended) × (new.failed ≡ true))

-- bytes that are handed over in one write after another up to a failure: nothing is asked of a writer after one
pub record CountsWrites {E : Type 0} (old new : SinkState)
    (answer : Result (Unit {0}) E) : Type 0 where
  pub is_used : new.used ≡ true
  pub past_failure : old.failed ≡ false → new.past_failure ≡ old.past_failure
  pub failure : MatchResult answer (λ _. new.failed ≡ old.failed) (λ _. new.failed ≡ true)

-- ---- what a source gave

-- the source gave these bytes, which are the first of all that it had, where all are known
pub record HasGiven (old new : SourceState) (bytes : List ℕ) : Type 0 where
  pub is_counted : length bytes ≡ new.taken
  pub is_first : Consumes old.remaining new.remaining bytes

-- the source gave these bytes after all that it had given before
abbrev pub GivesMore : SourceState → SourceState → List ℕ → Type 0
GivesMore now new more =
    (old : SourceState) (bytes : List ℕ) → HasGiven old now bytes → HasGiven old new (bytes ++ more)

-- the source showed its end, and gave these bytes, which are all that it had, where all are known
pub record HasGivenAll (old new : SourceState) (bytes : List ℕ) : Type 0 where
  pub is_ended : new.ended ≡ true
  pub is_healthy : new.failed ≡ false
  pub is_given : HasGiven old new bytes
  pub is_all : IfSome old.remaining (λ all. bytes ≡ all)

-- the source gave bytes of which no line is too long
abbrev pub GivesShortLines : SourceState → SourceState → Type 0
GivesShortLines old new = (bytes : List ℕ) × HasGiven old new bytes × HasShortLines bytes

-- the source gave bytes whose line of this number is the first that is too long
abbrev pub GivesLongLine : SourceState → SourceState → ℕ → Type 0
GivesLongLine old new number = (bytes : List ℕ) × HasGiven old new bytes × IsTooLong bytes number
