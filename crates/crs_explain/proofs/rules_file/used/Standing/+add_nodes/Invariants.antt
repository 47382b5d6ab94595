-- an argument is added with one level less to go
use Rattle.crs_explain.proofs.rules_file.used.Standing.+add_nodes.Given as goal

abbrev pub decreases-add_nodes : goal.decreases-add_nodes
decreases-add_nodes l = l.depth
