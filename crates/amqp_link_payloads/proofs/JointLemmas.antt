-- A piece after the last bytes of those before it.
use Rattle.std.proofs.Common.{◌≡◌, ℕ, ◌+◌, ◌-◌, ◌<◌, ◌==◌, ◌&&◌, Bool, true, false, List, [], ◌∷◌, ◌++◌, length, get_or, take, drop, set, refl, sym, ap, ◌∙◌, arith, append_assoc, if◌then◌else◌}
use Rattle.std.proofs.lemmas.Bool.{ne_eqb}
use Rattle.std.proofs.lemmas.List.{length-append, length-drop, length-take-le, drop-drop, drop_at, drop-take, take-append-drop, take_at}
use Rattle.std.proofs.Math.Seq.{take-add, take-set-lt, set-append_seam}
use Rattle.std.proofs.lemmas.List.{take-set-le}
use Rattle.amqp_link_payloads.specs.declared.position.scan.Tail.{Tail}
use Rattle.amqp_link_payloads.specs.Scan.{IsNext}
use Rattle.amqp_link_payloads.specs.Tail.{IsTailOf, blanked, recent}
use Rattle.amqp_link_payloads.proofs.BlankLemmas.{blanked_append}
use Rattle.amqp_link_payloads.proofs.StartsLemmas.{blanked_length}
use Rattle.amqp_link_payloads.proofs.TailLemmas.{recent_append, recent_block, length-recent}

-- ---- the bytes of a piece beside those before it

-- the first byte of all is made blank
pub joint_blank : (joint last front : List ℕ) → take (9 + length front) joint ≡ last ++ front → length last ≡ 9
    → take (9 + length front) (set joint 9 0xff) ≡ last ++ blanked front
joint_blank joint last [] e size = take-set-le (9 + length {A = ℕ} []) joint 9 0xff (omega arith) ∙ e
joint_blank joint last (x ∷ xs) e size =
    take-set-lt (9 + length (x ∷ xs)) joint 9 0xff (omega arith)
    ∙ ap (λ ys. set ys 9 0xff) e
    ∙ ap (λ k. set (last ++ x ∷ xs) k 0xff) (sym size)
    ∙ set-append_seam last x xs 0xff

blank_first : (G : List ℕ) → get_or (blanked G) 0 0xff ≡ 0xff
blank_first [] = refl
blank_first (x ∷ G) = refl

-- what follows the last bytes of F
abbrev pub follows : Bool → List ℕ → List ℕ
follows is_new front = if is_new then blanked front else front

follows_is : (F front : List ℕ) (is_new : Bool) → is_new ≡ (length F == 0) → blanked F ++ follows is_new front ≡ blanked (F ++ front)
follows_is [] front is_new e = ap (λ b. follows b front) e
follows_is (x ∷ F) front is_new e = ap (λ b. blanked (x ∷ F) ++ follows b front) (e ∙ ne_eqb (length (x ∷ F)) 0 (λ z. omega (arith, z)))

follows_size : (is_new : Bool) (front : List ℕ) → length (follows is_new front) ≡ length front
follows_size true front = blanked_length front
follows_size false front = refl

both_empty : (F P : List ℕ) → ((length F == 0) && (length P == 0)) ≡ (length (F ++ P) == 0)
both_empty [] P = refl
both_empty (x ∷ F) P =
    ap (λ b. b && (length P == 0)) (ne_eqb (length (x ∷ F)) 0 (λ z. omega (arith, z)))
    ∙ sym (ne_eqb (length (x ∷ (F ++ P))) 0 (λ z. omega (arith, z)))

module _ (t : Tail) (F : List ℕ) (is : IsTailOf t F) where
  last_size : length t.last ≡ 9
  last_size = ap length is.last_is ∙ length-recent 9 (blanked F)

  pub still_new : (P : List ℕ) (empty : Bool) → empty ≡ (length P == 0) → (t.is_new && empty) ≡ (length (F ++ P) == 0)
  still_new P empty e = ap (λ b. b && empty) is.new_is ∙ ap (λ b. (length F == 0) && b) e ∙ both_empty F P

  module _ (front bytes : List ℕ) (joined : bytes ≡ t.last ++ follows t.is_new front) where
    rest_is : drop 9 bytes ≡ follows t.is_new front
    rest_is = ap (drop 9) joined ∙ drop_at t.last (follows t.is_new front) 9 last_size

    front_is : take 9 bytes ≡ t.last
    front_is = ap (take 9) joined ∙ take_at t.last (follows t.is_new front) 9 last_size

    pub head_size : length bytes ≡ 9 + length front
    head_size = ap length joined ∙ omega (arith, length-append t.last (follows t.is_new front), last_size, follows_size t.is_new front)

    pub head_read : blanked F ++ drop 9 bytes ≡ blanked (F ++ front)
    head_read = ap (λ ys. blanked F ++ ys) rest_is ∙ follows_is F front t.is_new is.new_is

    pub head_next : IsNext (blanked F) bytes
    head_next = record {
      last = front_is ∙ is.last_is;
      blank = ap (λ G. get_or G 0 0xff) head_read ∙ blank_first (F ++ front);
    }

    -- the last bytes after it
    pub head_last : (joint : List ℕ) (n : ℕ) → n ≡ length front → bytes ≡ take (9 + n) joint → take 9 (drop n joint) ≡ recent 9 (blanked (F ++ front))
    head_last joint n size cut =
        sym (drop-take n 9 joint)
        ∙ ap (λ k. drop n (take k joint)) (let sum : n + 9 ≡ 9 + n = omega arith in sum)
        ∙ ap (drop n) (sym cut)
        ∙ ap (drop n) (sym (take-append-drop 9 bytes))
        ∙ ap (λ k. drop k (take 9 bytes ++ drop 9 bytes)) (let sum : n ≡ length (drop 9 bytes) = omega (arith, size, head_size, length-drop 9 bytes) in sum)
        ∙ ap (λ ys. drop (length (drop 9 bytes)) (ys ++ drop 9 bytes)) (front_is ∙ is.last_is)
        ∙ sym (recent_append 9 (blanked F) (drop 9 bytes))
        ∙ ap (recent 9) head_read

-- ---- the rest of a piece of more than ten bytes

module _ (F P : List ℕ) (long : 10 < length P) where
  one : length (take 1 P) ≡ 1
  one = length-take-le 1 P (omega arith)

  after_one : (xs : List ℕ) → blanked ((F ++ take 1 P) ++ xs) ≡ blanked (F ++ take 1 P) ++ xs
  after_one xs = blanked_append (F ++ take 1 P) xs (omega (arith, length-append F (take 1 P), one))

  ten_is : blanked (F ++ take 10 P) ≡ blanked (F ++ take 1 P) ++ take 9 (drop 1 P)
  ten_is =
      ap (λ ys. blanked (F ++ ys)) (take-add 1 9 P)
      ∙ ap blanked (sym (append_assoc F (take 1 P) (take 9 (drop 1 P))))
      ∙ after_one (take 9 (drop 1 P))

  all_is : blanked (F ++ P) ≡ blanked (F ++ take 1 P) ++ drop 1 P
  all_is =
      ap (λ ys. blanked (F ++ ys)) (sym (take-append-drop 1 P))
      ∙ ap blanked (sym (append_assoc F (take 1 P) (drop 1 P)))
      ∙ after_one (drop 1 P)

  nine : length (take 9 (drop 1 P)) ≡ 9
  nine = length-take-le 9 (drop 1 P) (omega (arith, length-drop 1 P))

  pub rest_read : blanked (F ++ take 10 P) ++ drop 9 (drop 1 P) ≡ blanked (F ++ P)
  rest_read =
      ap (λ ys. ys ++ drop 9 (drop 1 P)) ten_is
      ∙ append_assoc (blanked (F ++ take 1 P)) (take 9 (drop 1 P)) (drop 9 (drop 1 P))
      ∙ ap (λ ys. blanked (F ++ take 1 P) ++ ys) (take-append-drop 9 (drop 1 P))
      ∙ sym all_is

  pub rest_next : IsNext (blanked (F ++ take 10 P)) (drop 1 P)
  rest_next = record {
    last = sym (ap (recent 9) ten_is
        ∙ recent_block 9 (blanked (F ++ take 1 P)) (take 9 (drop 1 P)) (omega (arith, nine))
        ∙ ap (λ k. drop k (take 9 (drop 1 P))) (let none : length (take 9 (drop 1 P)) - 9 ≡ 0 = omega (arith, nine) in none));
    blank = ap (λ G. get_or G 0 0xff) rest_read ∙ blank_first (F ++ P);
  }

  pub rest_last : drop (length P - 9) P ≡ recent 9 (blanked (F ++ P))
  rest_last =
      sym (ap (recent 9) all_is
      ∙ recent_block 9 (blanked (F ++ take 1 P)) (drop 1 P) (omega (arith, length-drop 1 P))
      ∙ drop-drop (length (drop 1 P) - 9) 1 P
      ∙ ap (λ k. drop k P) (let sum : 1 + (length (drop 1 P) - 9) ≡ length P - 9 = omega (arith, length-drop 1 P) in sum))
