-- Groups and refused lines as objects of JSON (RFC 8259), each in a line.
use Rattle.std.specs.Prelude.{◌++◌, [], ℕ, Bool, List, codes, decimal, false, if◌then◌else◌, true}
use Rattle.crs_text.specs.Refusal.{RefusedAt, name_of}
use Rattle.crs_streams.specs.Json.{json_array, json_text, key, number_member, text_member}
use Rattle.crs_group.specs.Names.{name_at}
use Rattle.crs_group.specs.declared.listing.Listing.{Listing}

-- the number of a line, or its name, as a text
abbrev pub json_line : Bool → List (List ℕ) → ℕ → List ℕ
json_line false names number = decimal number
json_line true names number = json_text (name_at number names)

-- the names of these lines, where lines have names
abbrev pub names_member : Listing → List (List ℕ) → List ℕ → List ℕ
names_member listing names lines =
    if listing.names then key (codes "line_names") ++ json_array (json_line true names) lines else []

-- what is in a group: the numbers of lines, and their names, or files
abbrev pub places_members : Listing → List (List ℕ) → List ℕ → List ℕ
places_members listing names lines =
    if listing.files then key (codes "files") ++ json_array (json_line true names) lines
    else key (codes "lines") ++ json_array (json_line false names) lines ++ names_member listing names lines

-- the name of this line, where lines have names
abbrev pub name_member : Listing → List (List ℕ) → ℕ → List ℕ
name_member listing names line = if listing.names then text_member (codes "line_name") (name_at line names) else []

-- a group: its number, what is in it, and the canonical text of that, or under rules the form
abbrev pub group_object : Listing → List (List ℕ) → ℕ → List ℕ → List ℕ → List ℕ
group_object listing names number lines text =
    codes "{\"group\":" ++ decimal number ++ places_members listing names lines
    ++ text_member (codes "canonical") text ++ codes "}\n"

-- an object begins with the number of a line and its name, or with a file
abbrev pub place_member : Listing → List (List ℕ) → ℕ → List ℕ
place_member listing names line =
    if listing.files then codes "{\"file\":" ++ json_text (name_at line names)
    else codes "{\"line\":" ++ decimal line ++ name_member listing names line

-- what is refused: its place, and the number, the name and the place of the refusal
abbrev pub refused_object : Listing → List (List ℕ) → ℕ × RefusedAt → List ℕ
refused_object listing names (line, refusal) =
    place_member listing names line
    ++ (number_member (codes "refused") refusal.number ++ text_member (codes "name") (name_of refusal.number)
    ++ number_member (codes "place") refusal.place) ++ codes "}\n"

-- what is blank
abbrev pub blank_object : Listing → List (List ℕ) → ℕ → List ℕ
blank_object listing names line = place_member listing names line ++ codes ",\"blank\":true}\n"
