use Rattle.crs_group.specs.Catalogue.{canons}
use Rattle.crs_group.proofs.KnownLemmas.{under-has}
use Rattle.crs_group.proofs.catalogue.Catalogue.remember.Goals as goal

pub overflow_sub-number : goal.overflow_sub-number
overflow_sub-number c =
    (under-has c.args.self.now.level (canons c.args.self.now.groups) c.args.text.now c.in-Group.number
    (rw c.in-Group.is at c.requires)).0

pub invariant_of-self : goal.invariant_of-self
invariant_of-self c =
    c.keep.ensures c.self.inside.level (canons c.self.inside.groups) c.self.invariant
    (under-has c.self.inside.level (canons c.self.inside.groups) c.args.text.now c.in-Group.number
    (rw (c.in-Group.is, ← c.self.view_is) at c.requires)).1
