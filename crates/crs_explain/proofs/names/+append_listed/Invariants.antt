use Rattle.std.proofs.Common.{length}
use Rattle.crs_explain.proofs.names.+append_listed.Given as goal

abbrev pub decreases-append_listed : goal.decreases-append_listed
decreases-append_listed l = length l.names.now
