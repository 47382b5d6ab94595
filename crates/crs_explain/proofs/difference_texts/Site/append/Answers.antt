use Rattle.std.proofs.Common.{inl, inr}
use Rattle.std.proofs.lemmas.Result.{on_ok_weaker}
use Rattle.crs_explain.proofs.DifferingLemmas.{appends-one, no-set}
use Rattle.crs_explain.proofs.difference_texts.Site.append.Goals as goal

pub returns : goal.returns
returns c =
    rw (c.in-Parameters.is, c.in-Parameters-second.is, ← c.as_slice-these.ensures, ← c.as_slice-others.ensures) c.append.ensures

pub returns-in_default : goal.returns-in_default
returns-in_default c =
    on_ok_weaker c.append_one.result
    (appends-one c.args.self.level c.args.self.path.now c.args.first.now c.args.second.now c.args.out.now.items c.append_one.new.out.items
    (inl (no-set c.args.first.now c.in_default.not-Parameters)))
    c.append_one.ensures

pub returns-in_default-second : goal.returns-in_default-second
returns-in_default-second c =
    on_ok_weaker c.append_one-in_default-second.result
    (appends-one c.args.self.level c.args.self.path.now c.args.first.now c.args.second.now c.args.out.now.items c.append_one-in_default-second.new.out.items
    (inr (no-set c.args.second.now c.in_default-second.not-Parameters)))
    c.append_one-in_default-second.ensures
