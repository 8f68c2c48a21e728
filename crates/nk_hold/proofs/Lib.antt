mod Counted
mod Parted
