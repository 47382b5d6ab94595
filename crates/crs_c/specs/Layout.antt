-- How the structs that C shares with the library are laid out in memory.
use prog.Memory.{size, align}
use denote.Param.{layout}
use Rattle.std.specs.Prelude.{replicate}
use Rattle.crs_c.specs.declared.layout.Marks.{Marks}
use Rattle.crs_c.specs.declared.layout.Sizes.{Sizes}
use Rattle.crs_c.specs.declared.calls.refused.Refused.{Refused}
use Rattle.crs_c.specs.contracts.calls.canon.Entry as entry
use Rattle.crs_c.specs.contracts.calls.explain.Explained as explained
use Rattle.crs_c.specs.contracts.calls.refused.Refused as refused
use Rattle.crs_c.specs.contracts.calls.catalogue.Standing as standing
use Rattle.crs_c.specs.contracts.calls.catalogue.Numbered as numbered
use Rattle.crs_c.specs.contracts.calls.piece.Piece as piece
use Rattle.crs_c.specs.contracts.calls.rules.HeldRules as held_rules
use Rattle.crs_c.specs.contracts.calls.rules.Form as form
use Rattle.crs_c.specs.contracts.calls.rules.RulesStanding as rules_standing
use Rattle.crs_group.specs.contracts.catalogue.Catalogue as catalogue

-- the bytes that a catalogue, rules and each struct take, and the alignment of a catalogue and of rules
abbrev pub sizes : Sizes
sizes =
    record {
      catalogue = size (layout catalogue.the_row);
      alignment = align (layout catalogue.the_row);
      rules = size (layout held_rules.the_row);
      rules_alignment = align (layout held_rules.the_row);
      refusal = size (layout refused.the_row);
      standing = size (layout standing.the_row);
      line = size (layout numbered.the_row);
      piece = size (layout piece.the_row);
      rules_standing = size (layout rules_standing.the_row);
      form = size (layout form.the_row);
      explained = size (layout explained.the_row);
      entry = size (layout entry.the_row);
    }

-- a refusal with a mark in each field
abbrev pub marked_refusal : Refused
marked_refusal = record { place = 1111111111111111111; number = 2222222222 }

-- each of the structs with a mark in each field
abbrev pub marks : Marks
marks =
    record {
      refusal = marked_refusal;
      standing = record { group = 3333333333333333333; refused = marked_refusal; code = 4000000004 };
      line = record { number = 5555555555555555555; code = 4000000006 };
      piece = record { bytes = replicate 240 7; length = 8888888888888888888; code = 4000000009 };
      rules_standing = record {
        line = 1111111111111111112;
        place = 2222222222222222223;
        number = 2222222228;
        code = 4000000010;
      };
      form = record { length = 5555555555555555556; refused = marked_refusal; code = 4000000011 };
      explained = record {
        refused = marked_refusal;
        line = 1111111111111111113;
        column = 2222222222222222224;
        node = 3333333333333333335;
      };
      entry = record {
        begin = 1111111111111111114;
        end = 2222222222222222225;
        written_end = 3333333333333333336;
        place = 4444444444444444445;
        number = 2222222226;
        code = 4000000012;
      };
    }
