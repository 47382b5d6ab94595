-- A text that is normal at some level is normal at the full one, which leaves nothing out.
use Rattle.std.proofs.Common.{ℕ, List, Option, Some, None, refl}
use Rattle.crs_text.specs.inner.Prelude.{Item, leaf, node, Siblings, End, More}
use Rattle.crs_shape.specs.declared.class.Class.{Class}
use Rattle.crs_shape.specs.inner.Prelude.{class_in}
use Rattle.crs_value.specs.inner.Prelude.{AtClass}
use Rattle.crs_value.specs.declared.values.level.Level.{Level}
use Rattle.crs_value.specs.declared.values.level.Level.TheVariants as levels
use Rattle.crs_normal.specs.Normal.{AreNormalIn, AtLevel, IsNormalIn, IsNormalText}

keeps-all : (c : Class) (item : Item) → AtLevel levels.Full c item
keeps-all c item = (refl, (refl, (refl, tt)))

at-class : (P Q : Class → Type 0) (o : Option Class) → ((d : Class) → P d → Q d) → AtClass o P → AtClass o Q
at-class P Q None f h = absurd h
at-class P Q (Some d) f h = f d h

mutual
  pub normal-in : (level : Level) (parent c : Class) (item : Item) → IsNormalIn level parent c item → IsNormalIn levels.Full parent c item
  normal-in level parent c (leaf kind place raw) h = h
  normal-in level parent c (node place keyword square first others close) h = record {
    first_keyword = h.first_keyword;
    at_level = keeps-all c (node place keyword square first others close);
    own_form = h.own_form;
    ascending_sets = h.ascending_sets;
    normal_arguments = (
      at-class (λ d. IsNormalIn level c d first) (λ d. IsNormalIn levels.Full c d first) (class_in c first)
          (λ d n. normal-in level c d first n) h.normal_arguments.0,
      normal-all level c others h.normal_arguments.1,
    );
  }

  normal-all : (level : Level) (c : Class) (items : Siblings) → AreNormalIn level c items → AreNormalIn levels.Full c items
  normal-all level c End h = h
  normal-all level c (More item items) h = (
    at-class (λ d. IsNormalIn level c d item) (λ d. IsNormalIn levels.Full c d item) (class_in c item) (λ d n. normal-in level c d item n) h.0,
    normal-all level c items h.1,
  )

pub normal-at-full : (level : Level) (bytes : List ℕ) → IsNormalText level bytes → IsNormalText levels.Full bytes
normal-at-full level bytes h = record {
  item = h.item;
  class_read = h.class_read;
  spells = h.spells;
  root = h.root;
  written = h.written;
  normal = normal-in level h.class_read h.class_read h.item h.normal;
}
