use Rattle.std.proofs.Common.{◌≡◌, ◌<◌, ℕ, List, [], None, length, get_or, arith, rules}
use Rattle.crs_text.specs.inner.KeywordTable.{AreSuspects, IsSuspect}
use Rattle.crs_text.specs.declared.keyword.Suspect.{Suspect}
use Rattle.crs_text.proofs.words.WordLemmas.{suspect_at, suspect_is}
use Rattle.crs_text.proofs.keyword.suspected.Goals as goal

-- what an index past the table would give
abbrev no_suspect : Suspect
no_suspect = record { letters = record { ref_ptr = (0, 0); now = [] }; length = 0; keyword = None }

own : (ss : List Suspect) (i : ℕ) → AreSuspects ss → length ss ≡ 128 → i < 128 → IsSuspect (get_or ss i no_suspect)
own ss i all count within = suspect_at ss i no_suspect all (omega (arith, count, within))

pub bounds-suspect-0 : goal.bounds-suspect-0
bounds-suspect-0 c =
    let s = own c.suspects.result.now c.fingerprint.result c.suspects.ensures.rows c.suspects.ensures.count c.fingerprint.ensures in
    search (rules, s.1)

pub returns-then-same_lanes-count : goal.returns-then-same_lanes-count
returns-then-same_lanes-count c =
    let s = own c.suspects.result.now c.fingerprint.result c.suspects.ensures.rows c.suspects.ensures.count c.fingerprint.ensures in
    suspect_is (get_or c.suspects.result.now c.fingerprint.result no_suspect) c.args.left.now c.args.count s (omega (arith, c.if-suspect-count.true))
    (omega (arith, c.if-count-gt-LANES.false)) (c.same_lanes.ensures c.args.count (omega (arith, c.if-same_lanes-count.true)))
