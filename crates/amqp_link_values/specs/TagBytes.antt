-- The bytes of a delivery-tag as they are kept.
use Rattle.std.specs.Prelude.{ℕ, ◌<◌, ◌≤◌, List, length, take}
use Rattle.amqp_link_values.specs.declared.delivery_tag.TagBytes.{TagBytes}
use Rattle.amqp_link_values.specs.declared.delivery_tag.TagBytes.TheVariants.{Few, Many}

-- the first of the array, or all
abbrev pub tag_bytes : TagBytes → List ℕ
tag_bytes (Few bytes len) = take len bytes
tag_bytes (Many bytes) = bytes.items

-- so many there are
abbrev pub IsWithin : TagBytes → Type 0
IsWithin (Few bytes len) = len ≤ 16
IsWithin (Many bytes) = 16 < length bytes.items
