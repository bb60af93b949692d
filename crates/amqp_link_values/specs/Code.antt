-- How the logic stores the data of a value: as a tree of numbers, in which each level begins with the number
-- of its kind. `data_code` states that what is stored can be read back.
use Rattle.std.specs.Prelude.{◌≡◌, ◌==◌, [], ◌∷◌, refl}
use Rattle.std.specs.Prelude.{ℕ, ℤ, pos, negsuc, List, Bool, true, false, cond}
use Rattle.std.proofs.Common.{ap}
use Rattle.std.specs.Coded.{Coded, code_by}
use denote.Struct.Codes.{itself}
use base.Stored.{Gv, gnil, gnum, gcons, num}
use Rattle.amqp_link_values.specs.Data.{Data, null, boolean, ubyte, ushort, uint, ulong}
use Rattle.amqp_link_values.specs.Data.{byte, short, int, long, timestamp, binary, string, symbol}
use Rattle.amqp_link_values.specs.Data.{list, map, symbol_array, described}
use Rattle.amqp_link_values.specs.Data.{Items, no_items, item, Pairs, no_pairs, pair}
use Rattle.amqp_link_values.specs.declared.value.Descriptor.{Descriptor}
use Rattle.amqp_link_values.specs.declared.value.Descriptor.TheVariants.{Code, Name}

-- ---- the content of a level, stored and read back

-- a truth value: 1 or 0
abbrev pub truth_to : Bool → Gv
truth_to true = gnum 1
truth_to false = gnum 0

abbrev truth_from : Gv → Bool
truth_from g = num g == 1

pub truth_back : (b : Bool) → truth_from (truth_to b) ≡ b
truth_back true = refl
truth_back false = refl

-- a signed number: n stands for -1 - n, and a pair for a number that is not negative
abbrev pub signed_to : ℤ → Gv
signed_to (pos n) = gcons gnil (gnum n)
signed_to (negsuc n) = gnum n

abbrev signed_from : Gv → ℤ
signed_from gnil = pos 0
signed_from (gnum n) = negsuc n
signed_from (gcons a b) = pos (num b)

pub signed_back : (z : ℤ) → signed_from (signed_to z) ≡ z
signed_back (pos n) = refl
signed_back (negsuc n) = refl

-- bytes: the first one and the others
abbrev pub text_to : List ℕ → Gv
text_to [] = gnil
text_to (n ∷ ns) = gcons (gnum n) (text_to ns)

abbrev text_from : Gv → List ℕ
text_from gnil = []
text_from (gnum n) = []
text_from (gcons a b) = num a ∷ text_from b

pub text_back : (ns : List ℕ) → text_from (text_to ns) ≡ ns
text_back [] = refl
text_back (n ∷ ns) = ap (λ ms. n ∷ ms) (text_back ns)

-- texts: the first one and the others
abbrev pub texts_to : List (List ℕ) → Gv
texts_to [] = gnil
texts_to (t ∷ ts) = gcons (text_to t) (texts_to ts)

abbrev texts_from : Gv → List (List ℕ)
texts_from gnil = []
texts_from (gnum n) = []
texts_from (gcons a b) = text_from a ∷ texts_from b

pub texts_back : (ts : List (List ℕ)) → texts_from (texts_to ts) ≡ ts
texts_back [] = refl
texts_back (t ∷ ts) = λ i. text_back t i ∷ texts_back ts i

-- a descriptor: its number, or a pair with its name
abbrev pub kind_to : Descriptor → Gv
kind_to (Code n) = gnum n
kind_to (Name s) = gcons gnil (text_to s)

abbrev pub kind_from : Gv → Descriptor
kind_from gnil = Code 0
kind_from (gnum n) = Code n
kind_from (gcons a b) = Name (text_from b)

pub kind_back : (k : Descriptor) → kind_from (kind_to k) ≡ k
kind_back (Code n) = refl
kind_back (Name s) = ap Name (text_back s)

-- ---- a whole value

abbrev mutual
  -- a value: a pair of the number of its kind and its content
  pub data_to : Data → Gv
  data_to null = gcons (gnum 0) gnil
  data_to (boolean b) = gcons (gnum 1) (truth_to b)
  data_to (ubyte n) = gcons (gnum 2) (gnum n)
  data_to (ushort n) = gcons (gnum 3) (gnum n)
  data_to (uint n) = gcons (gnum 4) (gnum n)
  data_to (ulong n) = gcons (gnum 5) (gnum n)
  data_to (byte z) = gcons (gnum 6) (signed_to z)
  data_to (short z) = gcons (gnum 7) (signed_to z)
  data_to (int z) = gcons (gnum 8) (signed_to z)
  data_to (long z) = gcons (gnum 9) (signed_to z)
  data_to (timestamp z) = gcons (gnum 10) (signed_to z)
  data_to (binary t) = gcons (gnum 11) (text_to t)
  data_to (string t) = gcons (gnum 12) (text_to t)
  data_to (symbol t) = gcons (gnum 13) (text_to t)
  data_to (symbol_array ts) = gcons (gnum 14) (texts_to ts)
  data_to (list ds) = gcons (gnum 15) (items_to ds)
  data_to (map ps) = gcons (gnum 16) (pairs_to ps)
  data_to (described k d) = gcons (gnum 17) (gcons (kind_to k) (data_to d))

  -- the items of a list: the first one and the others
  pub items_to : Items → Gv
  items_to no_items = gnil
  items_to (item d ds) = gcons (data_to d) (items_to ds)

  -- the pairs of a map: a key, its value and the others
  pub pairs_to : Pairs → Gv
  pairs_to no_pairs = gnil
  pairs_to (pair k v ps) = gcons (data_to k) (gcons (data_to v) (pairs_to ps))

-- a level of the kind n with the content g, which is also read as items, as pairs and as a described value
abbrev level : ℕ → Gv → Items → Pairs → Data → Data
level n g ds ps d =
    cond (n == 0) null
    (cond (n == 1) (boolean (truth_from g))
    (cond (n == 2) (ubyte (num g))
    (cond (n == 3) (ushort (num g))
    (cond (n == 4) (uint (num g))
    (cond (n == 5) (ulong (num g))
    (cond (n == 6) (byte (signed_from g))
    (cond (n == 7) (short (signed_from g))
    (cond (n == 8) (int (signed_from g))
    (cond (n == 9) (long (signed_from g))
    (cond (n == 10) (timestamp (signed_from g))
    (cond (n == 11) (binary (text_from g))
    (cond (n == 12) (string (text_from g))
    (cond (n == 13) (symbol (text_from g))
    (cond (n == 14) (symbol_array (texts_from g))
    (cond (n == 15) (list ds)
    (cond (n == 16) (map ps) d))))))))))))))))

abbrev mutual
  -- each reads what the function of the same type above has stored
  pub data_from : Gv → Data
  data_from gnil = null
  data_from (gnum n) = null
  data_from (gcons a b) = level (num a) b (items_from b) (pairs_from b) (described_from b)

  described_from : Gv → Data
  described_from gnil = null
  described_from (gnum n) = null
  described_from (gcons a b) = described (kind_from a) (data_from b)

  items_from : Gv → Items
  items_from gnil = no_items
  items_from (gnum n) = no_items
  items_from (gcons a b) = item (data_from a) (items_from b)

  pairs_from : Gv → Pairs
  pairs_from gnil = no_pairs
  pairs_from (gnum n) = no_pairs
  pairs_from (gcons a gnil) = no_pairs
  pairs_from (gcons a (gnum n)) = no_pairs
  pairs_from (gcons a (gcons b c)) = pair (data_from a) (data_from b) (pairs_from c)

mutual
  -- what is read is what was stored
  pub data_back : (d : Data) → data_from (data_to d) ≡ d
  data_back null = refl
  data_back (boolean b) = ap boolean (truth_back b)
  data_back (ubyte n) = refl
  data_back (ushort n) = refl
  data_back (uint n) = refl
  data_back (ulong n) = refl
  data_back (byte z) = ap byte (signed_back z)
  data_back (short z) = ap short (signed_back z)
  data_back (int z) = ap int (signed_back z)
  data_back (long z) = ap long (signed_back z)
  data_back (timestamp z) = ap timestamp (signed_back z)
  data_back (binary t) = ap binary (text_back t)
  data_back (string t) = ap string (text_back t)
  data_back (symbol t) = ap symbol (text_back t)
  data_back (symbol_array ts) = ap symbol_array (texts_back ts)
  data_back (list ds) = ap list (items_back ds)
  data_back (map ps) = ap map (pairs_back ps)
  data_back (described k d) = λ i. described (kind_back k i) (data_back d i)

  pub items_back : (ds : Items) → items_from (items_to ds) ≡ ds
  items_back no_items = refl
  items_back (item d ds) = λ i. item (data_back d i) (items_back ds i)

  pub pairs_back : (ps : Pairs) → pairs_from (pairs_to ps) ≡ ps
  pairs_back no_pairs = refl
  pairs_back (pair k v ps) = λ i. pair (data_back k i) (data_back v i) (pairs_back ps i)

-- the code under which a map's values are stored
abbrev pub data_code : Coded Data
data_code = code_by Gv itself data_to data_from data_back
