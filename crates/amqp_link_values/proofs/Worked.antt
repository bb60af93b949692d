-- Values of the definitions that were worked out by hand: docs/DEFINITIONS.md lists them.
use Rattle.std.proofs.Common.{◌≡◌, pos, true, false, [], ◌∷◌, replicate, refl}
use Rattle.std.specs.Prelude.{codes}
use Rattle.amqp_link_values.specs.Copies.{carries_any, tag_carries_more, kind_carries_more, data_carries_more}
use Rattle.amqp_link_values.specs.Data.{null, uint, ulong, int, list, map, described, item, no_items, no_pairs}
use Rattle.amqp_link_values.specs.Length.{encoded_len, fields_len}
use Rattle.amqp_link_values.specs.declared.value.Descriptor.TheVariants.{Code}
use Rattle.amqp_link_values.specs.Same.{same_data}
use Rattle.amqp_link_values.specs.TagBytes.{tag_bytes}
use Rattle.amqp_link_values.specs.declared.delivery_tag.TagBytes.TheVariants.{Few}

uint_at_255 : encoded_len (uint 255) ≡ 2
uint_at_255 = refl

uint_at_256 : encoded_len (uint 256) ≡ 5
uint_at_256 = refl

int_at_128 : encoded_len (int (pos 128)) ≡ 5
int_at_128 = refl

empty_map : encoded_len (map no_pairs) ≡ 3
empty_map = refl

one_pair : fields_len ((codes "k", uint 7) ∷ []) ≡ 8
one_pair = refl

described_null : encoded_len (described (Code 117) null) ≡ 4
described_null = refl

-- ---- data

kinds_are_apart : same_data (uint 7) (ulong 7) ≡ false
kinds_are_apart = refl

same_list : same_data (list (item (uint 7) no_items)) (list (item (uint 7) no_items)) ≡ true
same_list = refl

four_bytes : tag_bytes (Few (0 ∷ 0 ∷ 1 ∷ 2 ∷ 0 ∷ 0 ∷ 0 ∷ 0 ∷ 0 ∷ 0 ∷ 0 ∷ 0 ∷ 0 ∷ 0 ∷ 0 ∷ 0 ∷ []) 4) ≡ 0 ∷ 0 ∷ 1 ∷ 2 ∷ []
four_bytes = refl

-- ---- copies

number_carries_nothing : data_carries_more (uint 7) ≡ false
number_carries_nothing = refl

empty_list_carries_nothing : data_carries_more (list no_items) ≡ false
empty_list_carries_nothing = refl

described_carries : data_carries_more (described (Code 117) null) ≡ true
described_carries = refl

code_carries_nothing : kind_carries_more (Code 117) ≡ false
code_carries_nothing = refl

one_letter_carries : carries_any (codes "k") ≡ true
one_letter_carries = refl

sixteen_bytes_carry_nothing : tag_carries_more (replicate 16 0) ≡ false
sixteen_bytes_carry_nothing = refl

seventeen_bytes_carry : tag_carries_more (replicate 17 0) ≡ true
seventeen_bytes_carry = refl
