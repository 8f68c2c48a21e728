mod Found
mod Forms
mod OneLine
mod OneScript
mod Decided
